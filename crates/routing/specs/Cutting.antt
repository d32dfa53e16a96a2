-- Segments cut where ends of others lie on them (own).
use Rattle.std.specs.Prelude.{◌≡◌, ◌⊎◌, ◌↔◌, pos, Contains, List}
use Rattle.geom.specs.declared.point.Pt.{Pt}
use Rattle.geom.specs.declared.edge.Edge.{Edge}
use Rattle.geom.specs.Determinant.{side, turn}
use Rattle.geom.specs.OnSegment.{IsOn}
use Rattle.geom.specs.Order.{IsBefore}
use Rattle.geom.specs.Pixel.{Point}
use Rattle.routing.specs.declared.on_line.OnLine.{OnLine}
use Rattle.routing.specs.declared.mark.Mark.{Mark}

-- c lies on e, between its ends
pub record LiesBetween (e : Edge) (c : Pt) : Type 0 where
  pub from : IsBefore e.p c
  pub to : IsBefore c e.q
  pub level : side e.p e.q c ≡ pos 0

-- the points of f are points of e, and the same directions are parallel to both
pub record IsPortion (e f : Edge) : Type 0 where
  pub inside : (z : Point) → IsOn f.p f.q z → IsOn e.p e.q z
  pub parallel : (c d : Pt) → (turn f.p f.q c d ≡ pos 0) ↔ (turn e.p e.q c d ≡ pos 0)

-- c is an end of an edge of the table
pub record IsEndIn (table : List OnLine) (c : Pt) : Type 0 where
  pub x : OnLine
  pub listed : Contains table x
  pub is_end : (x.edge.p ≡ c) ⊎ (x.edge.q ≡ c)

-- each mark is an end of an edge of the table
abbrev pub AreMarks : List OnLine → List Mark → Type 0
AreMarks table marks = (m : Mark) → Contains marks m → IsEndIn table m.point

-- some are marks of the list
abbrev pub AreAmong : List Mark → List Mark → Type 0
AreAmong marks some = (m : Mark) → Contains some m → Contains marks m

-- c is an end of e, or one of the marks
pub data IsCutPoint (e : Edge) (marks : List Mark) (c : Pt) : Type 0 where
  start : e.p ≡ c → IsCutPoint e marks c
  end : e.q ≡ c → IsCutPoint e marks c
  mark : (m : Mark) → Contains marks m → m.point ≡ c → IsCutPoint e marks c

-- y is a portion of whole, cut at marks
pub record IsPortionAt (whole : OnLine) (marks : List Mark) (y : OnLine) : Type 0 where
  pub numbered : y.number ≡ whole.number
  pub portion : IsPortion whole.edge y.edge
  pub p_cut : IsCutPoint whole.edge marks y.edge.p
  pub q_cut : IsCutPoint whole.edge marks y.edge.q

-- new has what old has, and portions of whole that are cut at marks and have all its points and both its ends
pub record AddsPortions (whole : OnLine) (marks : List Mark) (old new : List OnLine) : Type 0 where
  pub kept : (y : OnLine) → Contains old y → Contains new y
  pub only : (y : OnLine) → Contains new y → Contains old y ⊎ IsPortionAt whole marks y
  pub all : (z : Point) → IsOn whole.edge.p whole.edge.q z → (y : OnLine) × Contains new y × (y.number ≡ whole.number) × IsOn y.edge.p y.edge.q z
  pub first : (y : OnLine) × Contains new y × (y.edge.p ≡ whole.edge.p)
  pub last : (y : OnLine) × Contains new y × (y.edge.q ≡ whole.edge.q)

-- y has a portion of one of the entries, cut at ends of edges of the table
pub record IsCutFrom (table some : List OnLine) (y : OnLine) : Type 0 where
  pub whole : OnLine
  pub listed : Contains some whole
  pub numbered : y.number ≡ whole.number
  pub portion : IsPortion whole.edge y.edge
  pub p_end : IsEndIn table y.edge.p
  pub q_end : IsEndIn table y.edge.q

-- portions has the edges of some of the table's entries, cut at ends of edges of the table: with all their points and all their ends
pub record AreCut (table some portions : List OnLine) : Type 0 where
  pub only : (y : OnLine) → Contains portions y → IsCutFrom table some y
  pub all : (x : OnLine) (z : Point) → Contains some x → IsOn x.edge.p x.edge.q z → (y : OnLine) × Contains portions y × (y.number ≡ x.number) × IsOn y.edge.p y.edge.q z
  pub first : (x : OnLine) → Contains some x → (y : OnLine) × Contains portions y × (y.edge.p ≡ x.edge.p)
  pub last : (x : OnLine) → Contains some x → (y : OnLine) × Contains portions y × (y.edge.q ≡ x.edge.q)
