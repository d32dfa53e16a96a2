-- How many pairs of lines or segments have boxes that share a point (own).
use Rattle.std.specs.Prelude.{ℕ, ◌+◌, Bool, ◌&&◌, List, [], ◌∷◌, count_by}
use Rattle.geom.specs.declared.segment.Seg.{Seg}
use Rattle.geom.specs.declared.edge.Edge.{Edge}
use Rattle.crossing.specs.Boxes.{boxes_meet, spans_meet}

-- the closed boxes of the two lines have a point in common
abbrev pub lines_meet : Edge → Edge → Bool
lines_meet e f = spans_meet e.p.x e.q.x f.p.x f.q.x && spans_meet e.p.y e.q.y f.p.y f.q.y

-- the number of pairs of lines whose boxes share a point
abbrev pub line_pairs : List Edge → ℕ
line_pairs [] = 0
line_pairs (e ∷ es) = count_by (lines_meet e) es + line_pairs es

-- the number of pairs of segments whose boxes share a point
abbrev pub meeting_pairs : List Seg → ℕ
meeting_pairs [] = 0
meeting_pairs (s ∷ ss) = count_by (boxes_meet s) ss + meeting_pairs ss
