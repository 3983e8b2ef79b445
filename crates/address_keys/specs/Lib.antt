pub mod Hmac
pub mod Tokens
