-- What parts leave together.
mod Totals
mod LeastFaults
mod Wholes
-- One agent more.
mod Additions
