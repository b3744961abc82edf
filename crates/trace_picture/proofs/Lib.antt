mod Numbers
mod Causes
