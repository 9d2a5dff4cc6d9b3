mod Risen
mod Found
