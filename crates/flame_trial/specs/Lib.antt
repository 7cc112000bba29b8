-- Each definition's comment ends with its source in brackets:
-- own: a choice of this project
pub mod MeadowFiles
pub mod MeadowPopulations
