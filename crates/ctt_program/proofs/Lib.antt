mod Ends
mod Offices
