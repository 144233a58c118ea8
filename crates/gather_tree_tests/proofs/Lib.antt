mod Askables
mod Beginning
mod Grown
mod Loading
mod Planted
mod Requests
