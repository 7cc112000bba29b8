mod Dueness
mod SharedDesks
