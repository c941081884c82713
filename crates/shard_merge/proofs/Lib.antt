pub mod Unions
mod Many
mod Ends
mod Gains
mod Apart
mod Rows
mod OnWay
mod PageRows
mod Sounds
