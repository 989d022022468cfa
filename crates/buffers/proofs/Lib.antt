mod Files
mod Ending
mod Counting
mod Buffers
