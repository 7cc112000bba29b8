mod InOrders
mod Openings
pub mod Comings
mod LeastRanks
mod ShutRanks
mod Finished
mod Faulting
mod Counting
mod Nexts
mod Running
mod Allowed
mod SharedPieces
pub mod Done
mod SameSeen
mod Routed
mod TakenIn
mod Shown
mod Inside
