-- Steps over a border, read in order, and the links that they make.
use Rattle.std.proofs.Common.{◌≡◌, ◌≢◌, ℕ, zero, suc, ◌+◌, ◌<◌, ◌≤◌, inl, inr, List, [], ◌∷◌, ◌++◌, Bool, true, false, cond, refl, sym, ap, ◌∙◌, append-nil, append_assoc, arith, subst, length, get_or, take}
use Rattle.std.specs.Prelude.{AllPairs, Contains, IfSome, MatchOption, None, Option, Some, count_by, nat_lt}
use Rattle.std.specs.List.{AllZip}
use Rattle.std.proofs.lemmas.Bool.{cases_lt, cases_order, ltb-false, ltb-true}
use Rattle.std.proofs.lemmas.List.{length-take, take_all}
use Rattle.std.proofs.lemmas.List.Elements.{Contains-get_or}
use Rattle.std.proofs.lemmas.List.Sums.{sum_by-append, sum_by_push}
use Rattle.geom.specs.declared.point.Pt.{Pt}
use Rattle.geom.specs.declared.edge.Edge.{Edge}
use Rattle.geom.specs.declared.segment.Source.{Source}
use Rattle.geom.specs.Rounded.{joins}
use Rattle.geom.specs.Segments.{same_source}
use Rattle.geom.proofs.Lists.{some_same}
use Rattle.linking.specs.declared.link.Link.{Link}
use Rattle.distinct.specs.Copies.{copies_in, one_in}
use Rattle.linking.specs.Links.{IsBetween, copies_of, count_links, same_edge}
use Rattle.linking.proofs.CopyLinks.{one_copy}
use Rattle.linking.proofs.Walk.{joins_is}
use Rattle.strips_law.specs.declared.line.Open.{Open}
use Rattle.strips_law.specs.declared.line.Carried.{Carried}
use Rattle.strips_law.specs.Strips.{CarriesOn, step_over, steps_over}
use Rattle.phases.specs.Bridged.{AreApart, ArePassing}
use Rattle.phases.proofs.Keeping.{read_more}

-- ---- two lists of one length

pub zip_at : {X Y : Type 0} (R : X → Y → Type 0) (xs : List X) (ys : List Y) (i : ℕ) (x : X) (y : Y) → AllZip R xs ys → i < length xs → x ≡ get_or xs i x → y ≡ get_or ys i y → R x y
zip_at R [] ys i x y zip l e f = absurd (omega (arith, l))
zip_at R (a ∷ xs) [] i x y zip l e f = absurd zip
zip_at {X} {Y} R (a ∷ xs) (b ∷ ys) zero x y zip l e f = subst (λ (p : X × Y). R p.0 p.1) (λ j. (sym e j, sym f j)) zip.0
zip_at R (a ∷ xs) (b ∷ ys) (suc i) x y zip l e f = zip_at R xs ys i x y zip.1 (omega (arith, l)) e f

pub zip_push : {X Y : Type 0} (R : X → Y → Type 0) (xs : List X) (ys : List Y) (x : X) (y : Y) → AllZip R xs ys → R x y → AllZip R (xs ++ x ∷ []) (ys ++ y ∷ [])
zip_push R [] [] x y zip r = (r, tt)
zip_push R [] (b ∷ ys) x y zip r = absurd zip
zip_push R (a ∷ xs) [] x y zip r = absurd zip
zip_push R (a ∷ xs) (b ∷ ys) x y zip r = (zip.0, zip_push R xs ys x y zip.1 r)

pub zip_size : {X Y : Type 0} (R : X → Y → Type 0) (xs : List X) (ys : List Y) → AllZip R xs ys → length xs ≡ length ys
zip_size R [] [] zip = refl
zip_size R [] (b ∷ ys) zip = absurd zip
zip_size R (a ∷ xs) [] zip = absurd zip
zip_size R (a ∷ xs) (b ∷ ys) zip = ap suc (zip_size R xs ys zip.1)

-- ---- steps and links

steps_push : (layer : Source) (os : List Open) (cs : List Carried) (o : Open) (c : Carried) → length os ≡ length cs → steps_over layer (os ++ o ∷ []) (cs ++ c ∷ []) ≡ steps_over layer os cs ++ cond (same_source o.layer layer) (step_over o.near c.pixel) []
steps_push layer [] [] o c e = append-nil (cond (same_source o.layer layer) (step_over o.near c.pixel) [])
steps_push layer [] (d ∷ cs) o c e = absurd (omega (arith, e))
steps_push layer (p ∷ os) [] o c e = absurd (omega (arith, e))
steps_push layer (p ∷ os) (d ∷ cs) o c e =
    let first = cond (same_source p.layer layer) (step_over p.near d.pixel) [] in
    ap (λ (steps : List (Pt × Pt)). first ++ steps) (steps_push layer os cs o c (omega (arith, e))) ∙ sym (append_assoc first (steps_over layer os cs) (cond (same_source o.layer layer) (step_over o.near c.pixel) []))

module _ (right : List Open) (carried : List Carried) (i : ℕ) (o : Open) (c : Carried) (first : i < length right) (second : i < length carried) (o_is : o ≡ get_or right i o) (c_is : c ≡ get_or carried i c) (e : Edge) (layer : Source) (links : List Link)
    (known : count_links e layer links ≡ count_by (joins e) (steps_over layer (take i right) (take i carried))) where
  steps_more : count_by (joins e) (steps_over layer (take (i + 1) right) (take (i + 1) carried)) ≡ count_links e layer links + count_by (joins e) (cond (same_source o.layer layer) (step_over o.near c.pixel) [])
  steps_more =
      ap (λ (p : List Open × List Carried). count_by (joins e) (steps_over layer p.0 p.1)) (λ j. (read_more right i o first o_is j, read_more carried i c second c_is j))
      ∙ ap (count_by (joins e)) (steps_push layer (take i right) (take i carried) o c (let a = length-take i right in let b = length-take i carried in omega (arith, a, b, first, second)))
      ∙ sum_by-append (λ (s : Pt × Pt). cond {A = ℕ} (joins e s) 1 0) (steps_over layer (take i right) (take i carried)) (cond (same_source o.layer layer) (step_over o.near c.pixel) [])
      ∙ ap (λ (n : ℕ). n + count_by (joins e) (cond (same_source o.layer layer) (step_over o.near c.pixel) [])) (sym known)

  pub link_none : o.near ≡ None → count_links e layer links ≡ count_by (joins e) (steps_over layer (take (i + 1) right) (take (i + 1) carried))
  link_none none = sym (steps_more ∙ ap (λ (n : Option Pt). count_links e layer links + count_by (joins e) (cond (same_source o.layer layer) (step_over n c.pixel) [])) none ∙ nothing (same_source o.layer layer))
    where
      nothing : (b : Bool) → count_links e layer links + count_by (joins e) (cond b [] []) ≡ count_links e layer links
      nothing true = omega arith
      nothing false = omega arith

  pub link_more : (p : Pt) (f : Edge) → o.near ≡ Some p → IsBetween f p c.pixel → count_links e layer (links ++ (record { edge = f; copies = one_in o.layer }) ∷ []) ≡ count_by (joins e) (steps_over layer (take (i + 1) right) (take (i + 1) carried))
  link_more p f some between =
      sum_by_push (copies_of e layer) links (record { edge = f; copies = one_in o.layer })
      ∙ ap (λ (n : ℕ). count_links e layer links + n) (one (same_source o.layer layer) (one_copy layer o.layer))
      ∙ sym (steps_more ∙ ap (λ (n : Option Pt). count_links e layer links + count_by (joins e) (cond (same_source o.layer layer) (step_over n c.pixel) [])) some)
    where
      nothing : (b : Bool) → cond {A = ℕ} b 0 0 ≡ 0
      nothing true = refl
      nothing false = refl

      one : (b : Bool) → copies_in layer (one_in o.layer) ≡ cond {A = ℕ} b 1 0 → cond {A = ℕ} (same_edge e f) (copies_in layer (one_in o.layer)) 0 ≡ count_by (joins e) (cond b ((p, c.pixel) ∷ []) [])
      one true is = ap (λ (n : ℕ). cond {A = ℕ} (same_edge e f) n 0) is ∙ ap (λ (b : Bool). cond {A = ℕ} b 1 0) (sym (joins_is e f p c.pixel between)) ∙ plain (cond (joins e (p, c.pixel)) 1 0)
        where
          plain : (n : ℕ) → n ≡ 0 + n
          plain n = omega arith
      one false is = ap (λ (n : ℕ). cond {A = ℕ} (same_edge e f) n 0) is ∙ nothing (same_edge e f)

  -- by the link that is made of it
  pub linked_more : AreApart right carried → (made : Option Link) → (o.near ≡ None → made ≡ None) → ((p : Pt) → o.near ≡ Some p → p ≢ c.pixel → (f : Edge) × IsBetween f p c.pixel × (made ≡ Some (record { edge = f; copies = one_in o.layer })))
      → ((l : Link) → made ≡ Some l → count_links e layer (links ++ l ∷ []) ≡ count_by (joins e) (steps_over layer (take (i + 1) right) (take (i + 1) carried)))
      × (made ≡ None → count_links e layer links ≡ count_by (joins e) (steps_over layer (take (i + 1) right) (take (i + 1) carried)))
  linked_more apart made none some = by_near o.near refl
    where
      differs : IfSome o.near (λ p. p ≢ c.pixel)
      differs = zip_at (λ (o : Open) (c : Carried). IfSome o.near (λ p. p ≢ c.pixel)) right carried i o c apart first o_is c_is

      by_near : (near : Option Pt) → o.near ≡ near
          → ((l : Link) → made ≡ Some l → count_links e layer (links ++ l ∷ []) ≡ count_by (joins e) (steps_over layer (take (i + 1) right) (take (i + 1) carried)))
          × (made ≡ None → count_links e layer links ≡ count_by (joins e) (steps_over layer (take (i + 1) right) (take (i + 1) carried)))
      by_near None h = (λ l k. let n : None ≡ Some l = sym (none h) ∙ k in absurd (cc), λ k. link_none h)
      by_near (Some p) h =
          let (f, between, is) = some p h (subst (λ (n : Option Pt). IfSome n (λ q. q ≢ c.pixel)) h differs) in (
            λ l k. subst (λ (m : Link). count_links e layer (links ++ m ∷ []) ≡ count_by (joins e) (steps_over layer (take (i + 1) right) (take (i + 1) carried))) (some_same is k) (link_more p f h between),
            λ k. let n : None ≡ Some (record { edge = f; copies = one_in o.layer }) = sym k ∙ is in absurd (cc),
          )

pub steps_end : (layer : Source) (os : List Open) (cs : List Carried) (i : ℕ) → length os ≤ i → length cs ≤ i → steps_over layer (take i os) (take i cs) ≡ steps_over layer os cs
steps_end layer os cs i a b = ap (λ (p : List Open × List Carried). steps_over layer p.0 p.1) (λ j. (take_all i os a j, take_all i cs b j))

-- ---- what is carried on

module _ (left : List Open) (carried : List Carried) (i : ℕ) (o : Open) (inside : i < length left) (o_is : o ≡ get_or left i o) (found : Option Pt) (near_is : (p : Pt) → o.near ≡ Some p → found ≡ Some p)
    (passing_is : o.near ≡ None → AllPairs (λ c d. c.number < d.number) carried → (c : Carried) → Contains carried c → c.number ≡ o.number → found ≡ Some c.pixel) (h : ArePassing left carried) where
  listed : Contains left o
  listed = subst (λ (p : Open). Contains left p) (sym o_is) (Contains-get_or left i o inside)

  -- it is found, and is what the line carries on
  known : (near : Option Pt) → o.near ≡ near → (p : Pt) × (found ≡ Some p) × MatchOption near (Contains carried (record { number = o.number; pixel = p })) (λ q. q ≡ p)
  known None e =
      let (c, has, is) = h.passing o listed e in
      (c.pixel, passing_is e h.ascending c has is, subst (λ (d : Carried). Contains carried d) (λ j. record { number = is j; pixel = c.pixel }) has)
  known (Some q) e = (q, near_is q e, refl)

  pub carried_more : (p : Pt) → found ≡ Some p → (next : List Carried) → AllZip (CarriesOn carried) (take i left) next → AllZip (CarriesOn carried) (take (i + 1) left) (next ++ (record { number = o.number; pixel = p }) ∷ [])
  carried_more p e next zip =
      let (q, f, m) = known o.near refl in
      subst (λ (os : List Open). AllZip (CarriesOn carried) os (next ++ (record { number = o.number; pixel = p }) ∷ [])) (sym (read_more left i o inside o_is))
      (zip_push (CarriesOn carried) (take i left) next o (record { number = o.number; pixel = p }) zip (refl, subst (λ (r : Pt). MatchOption o.near (Contains carried (record { number = o.number; pixel = r })) (λ s. s ≡ r)) (some_same f e) m))

  pub never_lost : found ≡ None → ⊥
  never_lost e = let (q, f, m) = known o.near refl in let g : None ≡ Some q = sym e ∙ f in cc

pub falls_never : (carried : List Carried) → AllPairs (λ c e. c.number < e.number) carried → (i j : ℕ) (d : Carried) → i ≤ j → j < length carried → (get_or carried i d).number ≤ (get_or carried j d).number
falls_never carried up i j d l m = elim (cases_lt i j) [
  | inl less ↦ let k = up i j d less m in omega (arith, k)
  | inr more ↦ let e : i ≡ j = omega (arith, l, more) in subst (λ (k : ℕ). (get_or carried i d).number ≤ (get_or carried k d).number) e (omega arith)
]

-- the place of the one with this number
pub carried_at : (carried : List Carried) (place number : ℕ) (d : Carried) → AllPairs (λ c e. c.number < e.number) carried → Contains carried d → d.number ≡ number
    → ((k : ℕ) (e : Carried) → 0 ≤ k → k < place → nat_lt (get_or carried k e).number number ≡ true) → ((k : ℕ) (e : Carried) → place ≤ k → k < length carried → nat_lt (get_or carried k e).number number ≡ false)
    → (place < length carried) × (get_or carried place d ≡ d)
carried_at carried place number d up (k, inside, at) is below above = elim (cases_order place k) [
  | inl same ↦ (omega (arith, same, inside), ap (λ (j : ℕ). get_or carried j d) same ∙ at)
  | inr (inl before) ↦
      let l = up place k d before inside in
      let m : d.number ≤ (get_or carried place d).number = subst (λ (n : ℕ). n ≤ (get_or carried place d).number) (sym is) (ltb-false _ _ (above place d (omega arith) (omega (arith, before, inside)))) in
      let n : (get_or carried place d).number < d.number = subst (λ (e : Carried). (get_or carried place d).number < e.number) at l in
      absurd (omega (arith, m, n))
  | inr (inr behind) ↦
      let l : (get_or carried k d).number < number = ltb-true _ _ (below k d (omega arith) behind) in
      let n : d.number < number = subst (λ (e : Carried). e.number < number) at l in
      absurd (omega (arith, n, is))
]
