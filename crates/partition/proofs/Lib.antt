mod Search
mod Leaders
mod Next
mod Turns
mod Filled
