mod Names
mod Examples
