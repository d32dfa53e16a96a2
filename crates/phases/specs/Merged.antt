-- Two ascending lists as one, and what is found strip after strip (own).
use Rattle.std.specs.Prelude.{◌≡◌, ◌↔◌, ◌⊎◌, ◌+◌, ◌-◌, ℕ, ℤ, AllPairs, Contains, List, Some, length, map, slice_get}
use Rattle.std.specs.declared.vec.Vec.{Vec}
use Rattle.geom.specs.declared.edge.Counted.{Counted}
use Rattle.geom.specs.EdgeOrder.{IsEdgeBefore}
use Rattle.strips_law.specs.declared.line.Line.{Line}
use Rattle.strips_law.specs.declared.line.Carried.{Carried}
use Rattle.strips_law.specs.Strips.{AreCarried, AreEdgesOf}

abbrev pub AreAscending : List Counted → Type 0
AreAscending edges = AllPairs (λ c d. IsEdgeBefore c.edge d.edge) edges

-- no edge is in both lists
abbrev pub AreOthers : List Counted → List Counted → Type 0
AreOthers first second = (c d : Counted) → Contains first c → Contains second d → c.edge ≡ d.edge → ⊥

-- the list has what two lists have, in order
pub record AreMerged (first second list : List Counted) : Type 0 where
  pub ascending : AreAscending list
  pub exact : (c : Counted) → Contains list c ↔ (Contains first c ⊎ Contains second c)

abbrev pub lists_of : {A : Type 0} → List (Vec Counted A) → List (List Counted)
lists_of lists = map (λ v. v.items) lists

-- the lists are the edges of the strips from the last one to this one, and what is carried over its border is known
pub record AreFound (cuts : List ℤ) (lines : List Line) (strip : ℕ) (lists : List (List Counted)) (carried : List Carried) : Type 0 where
  pub one_each : length lists + strip ≡ length cuts + 1
  pub each : (k : ℕ) (edges : List Counted) → slice_get lists k ≡ Some edges → AreEdgesOf cuts (length cuts - k) lines edges
  pub carried_are : AreCarried cuts strip lines carried
