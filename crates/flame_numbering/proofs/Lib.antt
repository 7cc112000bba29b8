-- Tables of locals, and what a place sees.
pub mod LocalLaws
pub mod SightLaws
pub mod Scoping
-- Lists in loops, and arguments.
pub mod Rests
pub mod ArgumentLaws
-- First faults.
pub mod Firsts
