-- Each definition's comment ends with its source in brackets:
-- FLAME User Manual: agents and functions
-- libmboard: boards
-- own: a choice of this project, or a word that a definition is made of
-- ---- tasks, and what they leave
pub mod LaneTasks
pub mod TaskMeanings
pub mod LayerGains
-- ---- messages, boards and lanes
pub mod ListedMessages
pub mod LayerBoards
pub mod LaneColumns
