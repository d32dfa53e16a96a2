-- Numbers by lanes: the rows of vertices, lists made longer, and sixteen tests at once.
use Rattle.std.proofs.Common.{◌≡◌, ℕ, ◌+◌, ◌<◌, Bool, true, false, ◌&&◌, inl, inr, refl, ap, ◌∙◌, List, [], ◌∷◌, ◌++◌, length, get_or, arith, w32, of_z, to_z, to_z-of_z, FitsSigned, ℤ, pos}
use Rattle.std.specs.Prelude.{bit_and, int_lt}
use Rattle.std.proofs.lemmas.Bool.{cases_eq, cases_lt}
use Rattle.std.proofs.lemmas.Int.{ints}
use Rattle.std.proofs.lemmas.List.{get_or_append_left, get_or_past, get_or_push, length_push}
use lib.Lanes.{top}
use Rattle.box_lanes.specs.Sides.{IsColumn}
use Rattle.box_lanes.proofs.LaneLaws.{full}
use Rattle.geom.specs.declared.point.Pt.{Pt}
use Rattle.geom.specs.Limit.{IsWithin, coordinate_limit}
use Rattle.geom.proofs.Doubling.{back}
use Rattle.polygonize.specs.Below.{vertex_at}
use Rattle.polygonize.specs.Reaching.{AreHeights, IsLengthened}

-- one number more of a column
column_push : (xs : List ℤ) (x : ℤ) → IsColumn xs → FitsSigned w32 x → IsColumn (xs ++ x ∷ [])
column_push xs x h f = record {
  fits = λ k. elim (cases_lt k (length xs)) [
    | inl l ↦ rw (get_or_append_left xs (x ∷ []) (pos 0) k l) (h.fits k)
    | inr l ↦ elim (cases_eq k (length xs)) [
      | inl e ↦ rw (e, get_or_push xs x (pos 0)) f
      | inr n ↦ rw (get_or_past (xs ++ x ∷ []) k (pos 0) (omega (arith, length_push xs x))) (record { sfits = omega arith })
    ]
  ];
}

-- ---- lists made longer

-- n numbers more stand behind the old ones
pub record IsLonger (n : ℕ) (old new : List ℤ) : Type 0 where
  pub room : length new ≡ length old + n
  pub column : IsColumn old → IsColumn new
  pub kept : (r : ℕ) → r < length old → get_or new r (pos 0) ≡ get_or old r (pos 0)

pub longer_itself : (old : List ℤ) → IsLonger 0 old old
longer_itself old = record { room = omega arith; column = λ c. c; kept = λ r h. refl }

-- one number more
pub longer_more : (n : ℕ) (old new : List ℤ) (x : ℤ) → FitsSigned w32 x → IsLonger n old new → IsLonger (n + 1) old (new ++ x ∷ [])
longer_more n old new x f l = record {
  room = (let e = l.room in omega (arith, length_push new x, e));
  column = λ c. column_push new x (l.column c) f;
  kept = λ r h. get_or_append_left new (x ∷ []) (pos 0) r (let e = l.room in omega (arith, e, h)) ∙ l.kept r h;
}

pub lengthened : (n : ℕ) (old new : List ℤ) → n ≡ 16 → IsLonger n old new → IsLengthened old new
lengthened n old new e l = record { room = l.room ∙ ap (λ m. length old + m) e; column = l.column; kept = l.kept }

-- ---- the rows of vertices

-- the rows of the first n
pub record AreHeightsOf (vertices : List Pt) (n : ℕ) (heights : List ℤ) : Type 0 where
  pub many : length heights ≡ n
  pub column : IsColumn heights
  pub each : (r : ℕ) → r < n → get_or heights r (pos 0) ≡ (vertex_at vertices r).y

pub no_heights : (vertices : List Pt) → AreHeightsOf vertices 0 []
no_heights vertices = record { many = refl; column = record { fits = λ k. record { sfits = omega arith } }; each = λ r h. absurd (omega (arith, h)) }

-- the row of one vertex more
pub one_height : (vertices : List Pt) (n : ℕ) (heights : List ℤ) → IsWithin coordinate_limit (vertex_at vertices n).y → AreHeightsOf vertices n heights
    → AreHeightsOf vertices (n + 1) (heights ++ to_z w32 (of_z w32 (vertex_at vertices n).y) ∷ [])
one_height vertices n heights w a = let y = (vertex_at vertices n).y in let m = a.many in let low = w.low in let high = w.high in rw (back y w) (record {
  many = omega (arith, length_push heights y, m);
  column = column_push heights y a.column (omega (arith, ints, low, high));
  each = λ r h. elim (cases_lt r n) [
    | inl l ↦ get_or_append_left heights (y ∷ []) (pos 0) r (omega (arith, l, m)) ∙ a.each r l
    | inr l ↦ get_or_push heights y (pos 0) r (omega (arith, h, l, m)) ∙ ap (λ k. (vertex_at vertices k).y) (omega (arith, h, l))
  ];
})

-- the rows of all vertices, and numbers behind them
pub all_heights : (vertices : List Pt) (rows heights : List ℤ) → AreHeightsOf vertices (length vertices) rows → IsLengthened rows heights → AreHeights vertices heights
all_heights vertices rows heights a l = let m = a.many in record {
  room = l.room ∙ ap (λ n. n + 16) m;
  column = l.column a.column;
  each = λ r h. l.kept r (omega (arith, h, m)) ∙ a.each r h;
}

-- ---- two tests of each lane

pub top_of_two : (p q : Bool) → top 31 (bit_and (full p) (full q)) ≡ p && q
top_of_two true true = refl
top_of_two true false = refl
top_of_two false true = refl
top_of_two false false = refl

-- numbers of 32 bits are compared as they are
pub two : (a b p q : ℤ) → FitsSigned w32 a → FitsSigned w32 b → FitsSigned w32 p → FitsSigned w32 q
    → int_lt (to_z w32 (of_z w32 p)) (to_z w32 (of_z w32 a)) && int_lt (to_z w32 (of_z w32 b)) (to_z w32 (of_z w32 q)) ≡ int_lt p a && int_lt b q
two a b p q fa fb fp fq = simp to_z-of_z
