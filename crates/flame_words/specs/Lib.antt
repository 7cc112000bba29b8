pub mod CommandLines
pub mod CommandTable
pub mod WordRoles
pub mod WordValues
pub mod UsageFaults
pub mod GivenOrders
pub mod OrderLimits
pub mod UsageTexts
pub mod UsageLaws
-- the program's own words
pub mod TakenWords
pub mod WordSteps
