mod Lists
mod Seconds
