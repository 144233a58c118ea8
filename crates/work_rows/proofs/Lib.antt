mod Costs
mod Looked
mod Read
