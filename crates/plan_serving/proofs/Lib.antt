mod Engines
mod Numbers
mod Placing
mod Trees
