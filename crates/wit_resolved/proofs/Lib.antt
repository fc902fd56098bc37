mod Ending
mod Making
mod Searching
mod Validity
