-- How many edges end at vertices (own).
use Rattle.std.specs.Prelude.{ℕ, ℤ, Bool, true, Option, None, Some, ◌≡◌, ◌⊎◌, ◌↔◌, ◌<◌, ◌==◌, ◌&&◌, List, AllPairs, Contains, count_by, get_or, if◌then◌else◌, int_le, int_lt, length}
use Rattle.geom.specs.declared.point.Pt.{Pt}
use Rattle.geom.specs.declared.edge.Edge.{Edge}
use Rattle.geom.specs.Order.{IsBefore}
use Rattle.geom.specs.Segments.{same_point}
use Rattle.label_sweep.specs.declared.second_ends.Columns.{Columns}
use Rattle.label_sweep.specs.declared.second_ends.Ending.{Ending}
use Rattle.label_sweep.specs.declared.second_ends.Ending.TheVariants.{One, Two, Other}

-- whether a column lies on the left of another one, if there is that
abbrev pub is_left_of : Option ℤ → ℤ → Bool
is_left_of None x = true
is_left_of (Some past) x = int_lt x past

-- whether one of the columns is a point's
abbrev pub are_of : Columns → Pt → Bool
are_of columns v = int_le columns.from v.x && is_left_of columns.past v.x

-- the kind of ending where that many edges end
abbrev pub ending_of : ℕ → Ending
ending_of n = if n == 1 then One else if n == 2 then Two else Other

-- at most one edge ends at v
abbrev pub EndsOnce : List Edge → Pt → Type 0
EndsOnce es v = (e f : Edge) → Contains es e → Contains es f → e.q ≡ v → f.q ≡ v → e ≡ f

-- at most two do
abbrev pub EndsTwice : List Edge → Pt → Type 0
EndsTwice es v = (e f g : Edge) → Contains es e → Contains es f → Contains es g → e.q ≡ v → f.q ≡ v → g.q ≡ v → (e ≡ f) ⊎ ((f ≡ g) ⊎ (e ≡ g))

-- what it means that so many end at v
pub record IsEnding (es : List Edge) (v : Pt) (ending : Ending) : Type 0 where
  pub once : ending ≡ One → EndsOnce es v
  pub twice : ending ≡ Two → EndsTwice es v

-- for each vertex how many edges end there
pub record TellEndings (es : List Edge) (vertices : List Pt) (endings : List Ending) : Type 0 where
  pub long : length endings ≡ length vertices
  pub each : (k : ℕ) (u : Pt) → k < length vertices → get_or endings k Other ≡ ending_of (count_by (λ e. same_point e.q (get_or vertices k u)) es)

-- the points of two lists, each once, ascending, and how often each is among the second ones
pub record AreMerged (firsts seconds points : List Pt) (endings : List Ending) : Type 0 where
  pub ascending : AllPairs IsBefore points
  pub exact : (v : Pt) → Contains points v ↔ (Contains firsts v ⊎ Contains seconds v)
  pub long : length endings ≡ length points
  pub each : (k : ℕ) (u : Pt) → k < length points → get_or endings k Other ≡ ending_of (count_by (λ q. same_point q (get_or points k u)) seconds)
