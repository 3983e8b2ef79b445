mod Counting
mod Numbering
