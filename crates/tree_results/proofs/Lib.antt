mod Far
mod Going
mod Gone
mod Listed
