mod Following
mod Giving
mod Handing
mod Making
mod Serving
mod Telling
mod Tokens
