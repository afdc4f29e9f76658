mod Numbers
mod Rows
