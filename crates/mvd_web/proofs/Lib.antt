mod Calls
mod Feeding
mod Listing
