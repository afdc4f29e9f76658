mod Dates
mod Forms
mod Padding
mod Places
mod Readings
