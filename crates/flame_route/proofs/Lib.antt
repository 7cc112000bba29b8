pub mod Places
pub mod Numbers
pub mod SoFar
pub mod RouteChoices
pub mod Found
