-- The fields of a row's line.
use Rattle.std.proofs.Common.{◌≡◌, ℕ, ◌+◌, ◌-◌, ◌<◌, ◌≤◌, Bool, true, false, List, [], ◌∷◌, ◌++◌, length, take, drop, map, refl, sym, ap, subst, ◌∙◌, append_assoc, arith, suc, ⊎_elim, get_or, ltb-true, ltb-false}
use Rattle.std.specs.Prelude.{All, AllPairs, filter, slice_index_or, nat_le, nat_lt, ◌&&◌}
use Rattle.std.specs.List.{AllByRecursion, AllWithin}
use Rattle.std.specs.List.Sorted.{IsNonDecreasingBy}
use Rattle.std.specs.Fmt.{decimal}
use Rattle.std.proofs.Math.Nat.{eq-or-lt_of_le}
use Rattle.std.proofs.lemmas.Bool.{and_left, le-leb, le-ltb, leb-true, lt-leb, lt-ltb}
use Rattle.std.proofs.lemmas.List.{append-nil, drop_more, length-drop, length-take-le, map-append, get_or-drop, get_or-take, take_more, take-append-drop}
use Rattle.std.proofs.lemmas.List.Elements.{All-take, filter-append, filter_passes, recursion_from_All}
use Rattle.faces_text.specs.Text.{fields_text, is_of_layer, numbers_of, numbers_text, row_text}
use Rattle.cover_law.specs.Areas.{row_area}
use Rattle.cover_law.specs.Rows.{Row}
use Rattle.wkt.specs.Canonical.{multi_text}
use Rattle.std.specs.Fmt.{signed_decimal}

numbers_more : (n : ℕ) (ns : List ℕ) (m : ℕ) → numbers_text (n ∷ (ns ++ m ∷ [])) ≡ numbers_text (n ∷ ns) ++ (44 ∷ decimal m)
numbers_more n [] m = refl
numbers_more n (k ∷ ns) m = ap (λ (t : List ℕ). decimal n ++ (44 ∷ t)) (numbers_more k ns m) ∙ sym (append_assoc (decimal n) (44 ∷ numbers_text (k ∷ ns)) (44 ∷ decimal m))

-- a comma and the next number
pub number_more : (f : ℕ → ℕ) (x : ℕ) (xs : List ℕ) (i d y : ℕ) (front text comma new : List ℕ) → i < length xs → y ≡ slice_index_or xs i d
    → text ≡ front ++ numbers_text (map f (x ∷ take i xs)) → comma ≡ text ++ 44 ∷ [] → new ≡ comma ++ decimal (f y) → new ≡ front ++ numbers_text (map f (x ∷ take (i + 1) xs))
number_more f x xs i d y front text comma new lt is e g h =
    h ∙ ap (λ (t : List ℕ). t ++ decimal (f y)) (g ∙ ap (λ (t : List ℕ). t ++ 44 ∷ []) e)
    ∙ append_assoc (front ++ numbers_text (map f (x ∷ take i xs))) (44 ∷ []) (decimal (f y))
    ∙ append_assoc front (numbers_text (map f (x ∷ take i xs))) (44 ∷ decimal (f y))
    ∙ ap (λ (t : List ℕ). front ++ t) (sym (numbers_more (f x) (map f (take i xs)) (f y)))
    ∙ ap (λ (t : List ℕ). front ++ numbers_text (f x ∷ t)) (sym (map-append f (take i xs) (y ∷ [])) ∙ ap (map f) (ap (λ (z : ℕ). take i xs ++ z ∷ []) is ∙ sym (take_more xs i d lt)))

-- ---- of ascending features those of a layer

module _ {X : Type 0} (test : X → Bool) where
  none_by : (xs : List X) → AllByRecursion (λ x. test x ≡ false) xs → filter test xs ≡ []
  none_by [] h = refl
  none_by (x ∷ xs) h = rw h.0 (none_by xs h.1)

  all_by : (xs : List X) → AllByRecursion (λ x. test x ≡ true) xs → filter test xs ≡ xs
  all_by [] h = refl
  all_by (x ∷ xs) h = rw h.0 (ap (λ ys. x ∷ ys) (all_by xs h.1))

  -- where just a middle part passes
  pub filter_middle : (a b : ℕ) (xs : List X) → All (λ x. test x ≡ false) (take a xs) → All (λ x. test x ≡ true) (take b (drop a xs)) → All (λ x. test x ≡ false) (drop b (drop a xs))
      → filter test xs ≡ take b (drop a xs)
  filter_middle a b xs before between after =
      let front = take a xs in
      let middle = take b (drop a xs) in
      let back = drop b (drop a xs) in
      let whole : front ++ (middle ++ back) ≡ xs = ap (λ ys. front ++ ys) (take-append-drop b (drop a xs)) ∙ take-append-drop a xs in
      ap (filter test) (sym whole) ∙ filter-append test front (middle ++ back)
      ∙ ap (λ ys. ys ++ filter test (middle ++ back)) (none_by front (recursion_from_All _ front before))
      ∙ filter-append test middle back
      ∙ ap (λ ys. ys ++ filter test back) (all_by middle (recursion_from_All _ middle between))
      ∙ ap (λ ys. middle ++ ys) (none_by back (recursion_from_All _ back after)) ∙ append-nil middle

-- ---- ascending numbers below a bound
Ascend : List ℕ → Type 0
Ascend xs = AllPairs (λ f g. f < g) xs

pub never_falls : (xs : List ℕ) → AllPairs (λ f g. f < g) xs → IsNonDecreasingBy (λ f. f) xs
never_falls xs up i j d l m = ⊎_elim (λ q. subst (λ (n : ℕ). get_or xs i d ≤ get_or xs n d) q (omega arith)) (λ k. let o = up i j d k m in omega arith) (eq-or-lt_of_le l)

module _ (xs : List ℕ) (past n : ℕ) (within : n ≤ length xs) where
  pub low_front : AllWithin (λ f. nat_lt f past ≡ true) xs 0 n → All (λ f. f < past) (take n xs)
  low_front h k d l =
      let m : k < n = subst (λ (j : ℕ). k < j) (length-take-le n xs within) l in
      subst (λ (f : ℕ). f < past) (sym (get_or-take n xs k d m)) (ltb-true (get_or xs k d) past (h k d (omega arith) m))

  pub high_back : AllWithin (λ f. nat_lt f past ≡ false) xs n (length xs) → All (λ f. past ≤ f) (drop n xs)
  high_back h k d l =
      let m : k < length xs - n = subst (λ (j : ℕ). k < j) (length-drop n xs) l in
      let b = h (n + k) d (omega arith) (omega arith) in
      subst (λ (f : ℕ). past ≤ f) (sym (get_or-drop n xs k d)) (ltb-false (get_or xs (n + k) d) past b)

and_no : (x : Bool) → (x && false) ≡ false
and_no true = refl
and_no false = refl

-- ---- ascending features cut at a layer's first number and behind its last
module _ (xs : List ℕ) (first past a b : ℕ) (under : All (λ f. f < first) (take a xs)) (over : All (λ f. first ≤ f) (drop a xs)) (inside : All (λ f. f < past) (take b (drop a xs))) (beyond : All (λ f. past ≤ f) (drop b (drop a xs))) where
  no_first : (f : ℕ) → f < first → is_of_layer first past f ≡ false
  no_first f h = and_left (nat_le first f) (nat_lt f past) (lt-leb first f h)

  no_past : (f : ℕ) → past ≤ f → is_of_layer first past f ≡ false
  no_past f h = ap (λ (t : Bool). nat_le first f && t) (le-ltb f past h) ∙ and_no (nat_le first f)

  both : (f : ℕ) → first ≤ f → f < past → is_of_layer first past f ≡ true
  both f h k = ap (λ (t : Bool). t && nat_lt f past) (le-leb first f h) ∙ lt-ltb f past k

  pub of_layer_is : filter (is_of_layer first past) xs ≡ take b (drop a xs)
  of_layer_is = filter_middle (is_of_layer first past) a b xs
      (λ k d l. no_first (get_or (take a xs) k d) (under k d l))
      (λ k d l. both (get_or (take b (drop a xs)) k d) (All-take (λ f. first ≤ f) b (drop a xs) over k d l) (inside k d l))
      (λ k d l. no_past (get_or (drop b (drop a xs)) k d) (beyond k d l))

from_first : (first past f : ℕ) → is_of_layer first past f ≡ true → first ≤ f
from_first first past f h = by (nat_le first f) refl
  where
    by : (t : Bool) → nat_le first f ≡ t → first ≤ f
    by true e = leb-true first f e
    by false e = absurd (let k = sym (and_left (nat_le first f) (nat_lt f past) e) ∙ h in cc)

pub all_from_first : (first past : ℕ) (xs ys : List ℕ) → ys ≡ filter (is_of_layer first past) xs → All (λ f. first ≤ f) ys
all_from_first first past xs ys e = subst (All (λ f. first ≤ f)) (sym e) (λ k d l. from_first first past (get_or (filter (is_of_layer first past) xs) k d) (filter_passes (is_of_layer first past) xs k d l))

-- ---- one field more, and a whole line
pub field_more : (counts : List ℕ) (i d first count : ℕ) (set layer text tab new whole : List ℕ) → i < length counts → count ≡ slice_index_or counts i d
    → text ++ fields_text first (drop i counts) set ≡ whole → tab ≡ text ++ 9 ∷ [] → layer ≡ filter (is_of_layer first (first + count)) set
    → new ≡ tab ++ numbers_text (map (λ f. suc (f - first)) layer) → new ++ fields_text (first + count) (drop (i + 1) counts) set ≡ whole
field_more counts i d first count set layer text tab new whole lt is e g l h =
    let numbers = numbers_text (numbers_of first (first + count) set) in
    let rest = fields_text (first + count) (drop (i + 1) counts) set in
    let here : fields_text first (drop i counts) set ≡ 9 ∷ (numbers ++ rest) = ap (λ (cs : List ℕ). fields_text first cs set) (drop_more counts i d lt ∙ ap (λ (c : ℕ). c ∷ drop (i + 1) counts) (sym is)) in
    ap (λ (t : List ℕ). t ++ rest) (h ∙ ap (λ (t : List ℕ). t ++ numbers_text (map (λ f. suc (f - first)) layer)) g ∙ ap (λ (z : List ℕ). (text ++ 9 ∷ []) ++ numbers_text (map (λ f. suc (f - first)) z)) l)
    ∙ append_assoc (text ++ 9 ∷ []) numbers rest
    ∙ append_assoc text (9 ∷ []) (numbers ++ rest)
    ∙ ap (λ (t : List ℕ). text ++ t) (sym here) ∙ e

pub line_whole : (counts : List ℕ) (row : Row) (text a b c d line : List ℕ) → a ≡ text ++ signed_decimal (row_area row) → b ≡ a ++ fields_text 0 counts row.set → c ≡ b ++ 9 ∷ [] → line ≡ multi_text row.polygons → d ≡ c ++ line
    → d ≡ text ++ row_text counts row
line_whole counts row text a b c d line e f g h k =
    let area = signed_decimal (row_area row) in
    let fields = fields_text 0 counts row.set in
    k ∙ ap (λ (t : List ℕ). c ++ t) h ∙ ap (λ (t : List ℕ). t ++ multi_text row.polygons) (g ∙ ap (λ (t : List ℕ). t ++ 9 ∷ []) (f ∙ ap (λ (t : List ℕ). t ++ fields) e))
    ∙ append_assoc ((text ++ area) ++ fields) (9 ∷ []) (multi_text row.polygons)
    ∙ append_assoc (text ++ area) fields (9 ∷ multi_text row.polygons)
    ∙ append_assoc text area (fields ++ (9 ∷ multi_text row.polygons))
