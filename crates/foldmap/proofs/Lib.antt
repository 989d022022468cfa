mod Rows
mod Examples
