mod Sums
mod Totals
mod Turning
