-- Each definition's comment ends with its source in brackets:
-- libmboard: boards
-- own: a choice of this project, or a word that a definition is made of
-- ---- the pieces of a layer, lane by lane
pub mod LayerPieces
-- ---- what is seen of lanes and of boards
pub mod LaneParts
pub mod SeenLanes
pub mod SeenBoards
-- ---- the words that only bodies and proofs use
pub mod LaneRules
