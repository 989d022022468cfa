mod Walking
mod Onward
