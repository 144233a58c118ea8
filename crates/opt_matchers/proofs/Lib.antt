mod Handed
mod Ordered
mod Orders
mod Partners
mod Propagates
mod Signed
