mod Made
mod Bytes
