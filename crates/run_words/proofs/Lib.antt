mod Given
mod Numbers
mod Utf8
