mod Order
mod Search
mod Rows
