mod Askables
mod Beginning
mod Moving
