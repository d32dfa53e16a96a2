-- Which fronts of a text some layer begins with.
use Rattle.std.proofs.Common.{◌≡◌, ℕ, zero, suc, ◌+◌, ◌-◌, ◌<◌, ◌≤◌, Bool, true, false, List, [], ◌∷◌, ◌++◌, length, get_or, take, drop, Option, Some, None, refl, sym, ap, subst, ◌∙◌, append_assoc, arith}
use Rattle.std.specs.Prelude.{option_and_then, option_map}
use Rattle.std.proofs.lemmas.List.{take-append-drop, take-take, take_all, take_more}
use Rattle.std.proofs.lemmas.Option.{same_Some}
use Rattle.wkt.specs.declared.places.Place.{Place}
use Rattle.wkt.specs.declared.places.Place.TheVariants.{Between, Keyword, KeywordGap, Empty, Ended, BeforeBody, BeforeRing, BeforePoint, MinusX, DigitsX, BeforeY, MinusY, DigitsY, AfterPoint, AfterRing, AfterBody}
use Rattle.wkt.specs.declared.places.Class.{Class}
use Rattle.wkt.specs.declared.places.Class.TheVariants.{Space, Digit, Minus, Comma, Open, Close, Letter}
use Rattle.wkt.specs.LayerText.{Ring, IsLayer, Begins, IsBroken}
use Rattle.wkt.specs.Machine.{class_of, turn, Notes, noted, State, run, start, may_end, Control, is_multi_after, moved, walk, completion}
use Rattle.wkt.proofs.Back.{Keeps, Bounded}
use Rattle.wkt.proofs.Sound.{keeps, then_some, at_some, KeepsAt, accepted}
use Rattle.wkt.proofs.Complete.{taken}

-- from each place the machine gets to an end
abbrev Finishes : Control → List ℕ → Type 0
Finishes c t = (d : Control) × (walk c t ≡ Some d) × (may_end d.0 ≡ true)

finishes : (p : Place) (multi : Bool) → Bounded p multi → Finishes (p, multi) (completion p multi)
finishes (Keyword zero) multi g = ((Ended, multi), refl, refl)
finishes (Keyword (suc zero)) multi g = ((Ended, multi), refl, refl)
finishes (Keyword (suc (suc zero))) multi g = ((Ended, multi), refl, refl)
finishes (Keyword (suc (suc (suc zero)))) multi g = ((Ended, multi), refl, refl)
finishes (Keyword (suc (suc (suc (suc zero))))) multi g = ((Ended, multi), refl, refl)
finishes (Keyword (suc (suc (suc (suc (suc zero)))))) multi g = ((Ended, multi), refl, refl)
finishes (Keyword (suc (suc (suc (suc (suc (suc zero))))))) multi g = ((Ended, multi), refl, refl)
finishes (Keyword (suc (suc (suc (suc (suc (suc (suc zero)))))))) multi g = ((Ended, multi), refl, refl)
finishes (Keyword (suc (suc (suc (suc (suc (suc (suc (suc zero))))))))) multi g = ((Ended, multi), refl, refl)
finishes (Keyword (suc (suc (suc (suc (suc (suc (suc (suc (suc zero)))))))))) multi g = ((Ended, multi), refl, refl)
finishes (Keyword (suc (suc (suc (suc (suc (suc (suc (suc (suc (suc zero))))))))))) multi g = ((Ended, multi), refl, refl)
finishes (Keyword (suc (suc (suc (suc (suc (suc (suc (suc (suc (suc (suc zero)))))))))))) multi g = ((Ended, multi), refl, refl)
finishes (Keyword (suc (suc (suc (suc (suc (suc (suc (suc (suc (suc (suc (suc zero))))))))))))) multi g = ((Ended, multi), refl, refl)
finishes (Keyword (suc (suc (suc (suc (suc (suc (suc (suc (suc (suc (suc (suc (suc k)))))))))))))) multi g = absurd (omega arith)
finishes (Empty zero) multi g = ((Ended, multi), refl, refl)
finishes (Empty (suc zero)) multi g = ((Ended, multi), refl, refl)
finishes (Empty (suc (suc zero))) multi g = ((Ended, multi), refl, refl)
finishes (Empty (suc (suc (suc zero)))) multi g = ((Ended, multi), refl, refl)
finishes (Empty (suc (suc (suc (suc zero))))) multi g = ((Ended, multi), refl, refl)
finishes (Empty (suc (suc (suc (suc (suc k)))))) multi g = absurd (omega arith)
finishes BeforeRing true g = ((Ended, true), refl, refl)
finishes BeforeRing false g = ((Ended, false), refl, refl)
finishes BeforePoint true g = ((Ended, true), refl, refl)
finishes BeforePoint false g = ((Ended, false), refl, refl)
finishes MinusX true g = ((Ended, true), refl, refl)
finishes MinusX false g = ((Ended, false), refl, refl)
finishes DigitsX true g = ((Ended, true), refl, refl)
finishes DigitsX false g = ((Ended, false), refl, refl)
finishes BeforeY true g = ((Ended, true), refl, refl)
finishes BeforeY false g = ((Ended, false), refl, refl)
finishes MinusY true g = ((Ended, true), refl, refl)
finishes MinusY false g = ((Ended, false), refl, refl)
finishes DigitsY true g = ((Ended, true), refl, refl)
finishes DigitsY false g = ((Ended, false), refl, refl)
finishes AfterPoint true g = ((Ended, true), refl, refl)
finishes AfterPoint false g = ((Ended, false), refl, refl)
finishes AfterRing true g = ((Ended, true), refl, refl)
finishes AfterRing false g = ((Ended, false), refl, refl)
finishes BeforeBody true g = ((Ended, true), refl, refl)
finishes BeforeBody false g = absurd cc
finishes AfterBody true g = ((Ended, true), refl, refl)
finishes AfterBody false g = absurd cc
finishes Between multi g = ((Between, multi), refl, refl)
finishes Ended multi g = ((Ended, multi), refl, refl)
finishes KeywordGap multi g = ((Ended, multi), refl, refl)

-- ---- the machine, with and without its notes

abbrev pub begin : Control
begin = (Between, false)

abbrev control : State → Control
control s = (s.place, s.notes.multi)

pub noted_multi : (at : ℕ) (p : Place) (k : Class) (m : Notes) → (noted at p k m).multi ≡ is_multi_after p k m.multi
noted_multi at Between (Letter c) m = refl
noted_multi at BeforeRing Open m = refl
noted_multi at BeforePoint Minus m = refl
noted_multi at BeforePoint (Digit d) m = refl
noted_multi at MinusX (Digit d) m = refl
noted_multi at DigitsX (Digit d) m = refl
noted_multi at DigitsX Space m = refl
noted_multi at BeforeY Minus m = refl
noted_multi at BeforeY (Digit d) m = refl
noted_multi at MinusY (Digit d) m = refl
noted_multi at DigitsY (Digit d) m = refl
noted_multi at DigitsY Space m = refl
noted_multi at DigitsY Comma m = refl
noted_multi at DigitsY Close m = refl
noted_multi at AfterPoint Close m = refl
noted_multi at p k m = refl

follow : (n : ℕ) (t : List ℕ) (o : Option Place) (m : Notes) (multi : Bool) → m.multi ≡ multi → ((s : State) → option_map control (run n s t) ≡ walk (control s) t)
    → option_map control (option_and_then (λ s. run n s t) (option_map (λ p. record { place = p; notes = m }) o)) ≡ option_and_then (λ d. walk d t) (option_map (λ p. (p, multi)) o)
follow n t None m multi e f = refl
follow n t (Some p) m multi e f = f (record { place = p; notes = m }) ∙ ap (λ (b : Bool). walk (p, b) t) e

pub same_control : (n : ℕ) (t : List ℕ) (s : State) → option_map control (run n s t) ≡ walk (control s) t
same_control n [] s = refl
same_control n (b ∷ t) s =
    follow n t (turn s.place (class_of b) s.notes.multi) (noted (n - length (b ∷ t)) s.place (class_of b) s.notes) (is_multi_after s.place (class_of b) s.notes.multi)
    (noted_multi (n - length (b ∷ t)) s.place (class_of b) s.notes) (same_control n t)

onward : (o : Option Control) (t u : List ℕ) → ((d : Control) → walk d (t ++ u) ≡ option_and_then (λ e. walk e u) (walk d t))
    → option_and_then (λ d. walk d (t ++ u)) o ≡ option_and_then (λ e. walk e u) (option_and_then (λ d. walk d t) o)
onward None t u f = refl
onward (Some d) t u f = f d

pub walk-append : (c : Control) (t u : List ℕ) → walk c (t ++ u) ≡ option_and_then (λ d. walk d u) (walk c t)
walk-append c [] u = refl
walk-append c (b ∷ t) u = onward (moved c (class_of b)) t u (λ d. walk-append d t u)

run_keeps : (n : ℕ) (t : List ℕ) (s s' : State) → KeepsAt s → run n s t ≡ Some s' → KeepsAt s'
run_keeps n [] s s' g e = subst KeepsAt (same_Some s s' e) g
run_keeps n (b ∷ t) s s' g e =
    let at = n - length (b ∷ t) in
    let q = then_some (turn s.place (class_of b) s.notes.multi) (λ p. record { place = p; notes = noted at s.place (class_of b) s.notes }) (λ x. run n x t) s' e in
    let g' : Keeps q.0 (noted at s.place (class_of b) s.notes) = at_some (turn s.place (class_of b) s.notes.multi) q.0 (λ p. Keeps p (noted at s.place (class_of b) s.notes)) q.1 (keeps at s.place (class_of b) s.notes g) in
    run_keeps n t (record { place = q.0; notes = noted at s.place (class_of b) s.notes }) s' g' q.2

mapped : {A B : Type 0} (f : A → B) (o : Option A) (b : B) → option_map f o ≡ Some b → (a : A) × (o ≡ Some a) × (f a ≡ b)
mapped f (Some a) b e = (a, refl, same_Some (f a) b e)
mapped f None b e = absurd cc

-- ---- fronts

-- the machine that walks over a text to an end takes it
walked : (text : List ℕ) (d : Control) → walk begin text ≡ Some d → may_end d.0 ≡ true → (rings : List Ring) × IsLayer text rings
walked text d e end =
    let q = mapped control (run (length text) start text) d (same_control (length text) text start ∙ e) in
    let end' : may_end q.0.place ≡ true = ap (λ (c : Control). may_end c.0) q.2 ∙ end in
    (q.0.notes.rings, accepted text q.0 q.1 end')

-- and it walks over each layer to an end
pub walks : (text : List ℕ) (rings : List Ring) → IsLayer text rings → (d : Control) × (walk begin text ≡ Some d) × (may_end d.0 ≡ true)
walks text rings h =
    let q = taken text rings h in
    (control q.0, sym (same_control (length text) text start) ∙ ap (option_map control) q.1, q.2)

pub begins : (t : List ℕ) (c : Control) → walk begin t ≡ Some c → Begins t
begins t c e =
    let q = mapped control (run 0 start t) c (same_control 0 t start ∙ e) in
    let g : Bounded c.0 c.1 = subst (λ (x : Control). Bounded x.0 x.1) q.2 (run_keeps 0 t start q.0 tt q.1) in
    let f = finishes c.0 c.1 g in
    let w : walk begin (t ++ completion c.0 c.1) ≡ Some f.0 = walk-append begin t (completion c.0 c.1) ∙ ap (option_and_then (λ d. walk d (completion c.0 c.1))) e ∙ f.1 in
    let r = walked (t ++ completion c.0 c.1) f.0 w f.2 in
    (completion c.0 c.1, r.0, r.1)

pub no_begins : (t : List ℕ) → walk begin t ≡ None → Begins t → ⊥
no_begins t e (u, rings, h) =
    let q = walks (t ++ u) rings h in
    let w : walk begin (t ++ u) ≡ None = walk-append begin t u ∙ ap (option_and_then (λ d. walk d u)) e in
    absurd cc

parted : (text : List ℕ) (i k : ℕ) → i ≤ k → take k text ≡ take i text ++ drop i (take k text)
parted text i k le = sym (take-append-drop i (take k text)) ∙ ap (λ (x : List ℕ). x ++ drop i (take k text)) (take-take i k text le)

-- the machine stops behind the text's first o bytes
pub stopped : (text : List ℕ) (o : ℕ) (c : Control) → o < length text → walk begin (take o text) ≡ Some c → walk begin (take (o + 1) text) ≡ None → IsBroken text o
stopped text o c lt e f = record {
  not_layer = λ rings h. no_begins (take (o + 1) text) f (drop (o + 1) text, rings, subst (λ (x : List ℕ). IsLayer x rings) (sym (take-append-drop (o + 1) text)) h);
  front = record {
    within = omega arith;
    begins = begins (take o text) c e;
    longest = λ k more most h.
        no_begins (take (o + 1) text) f (
          drop (o + 1) (take k text) ++ h.0,
          h.1,
          subst (λ (x : List ℕ). IsLayer x h.1) (ap (λ (x : List ℕ). x ++ h.0) (parted text (o + 1) k (omega arith)) ∙ append_assoc (take (o + 1) text) (drop (o + 1) (take k text)) h.0) h.2,
        );
  };
}

-- the machine stands, where the text ends, at no end
pub unfinished : (text : List ℕ) (c : Control) → walk begin text ≡ Some c → may_end c.0 ≡ false → IsBroken text (length text)
unfinished text c e f = record {
  not_layer = λ rings h. let q = walks text rings h in let same : q.0 ≡ c = same_Some q.0 c (sym q.1 ∙ e) in let g : may_end c.0 ≡ true = sym (ap (λ (x : Control). may_end x.0) same) ∙ q.2 in absurd cc;
  front = record {
    within = omega arith;
    begins = begins (take (length text) text) c (ap (walk begin) (take_all (length text) text (omega arith)) ∙ e);
    longest = λ k more most h. absurd (omega arith);
  };
}

-- ---- a byte more

one_more : (text : List ℕ) (at : ℕ) (c : Control) → at < length text → walk begin (take at text) ≡ Some c → walk begin (take (at + 1) text) ≡ walk c (get_or text at 0 ∷ [])
one_more text at c lt e =
    ap (walk begin) (take_more text at 0 lt) ∙ walk-append begin (take at text) (get_or text at 0 ∷ []) ∙ ap (option_and_then (λ d. walk d (get_or text at 0 ∷ []))) e

pub goes_on : (text : List ℕ) (at : ℕ) (p q : Place) (k : Class) (multi multi' : Bool) → at < length text → walk begin (take at text) ≡ Some (p, multi)
    → k ≡ class_of (get_or text at 0) → Some q ≡ turn p k multi → multi' ≡ is_multi_after p k multi → walk begin (take (at + 1) text) ≡ Some (q, multi')
goes_on text at p q k multi multi' lt e f g h =
    one_more text at (p, multi) lt e
    ∙ ap (λ (x : Class). option_and_then (λ d. walk d []) (moved (p, multi) x)) (sym f)
    ∙ ap (λ (o : Option Place). option_and_then (λ d. walk d []) (option_map (λ x. (x, is_multi_after p k multi)) o)) (sym g)
    ∙ ap (λ (b : Bool). Some (q, b)) (sym h)

pub stops : (text : List ℕ) (at : ℕ) (p : Place) (k : Class) (multi : Bool) → at < length text → walk begin (take at text) ≡ Some (p, multi)
    → k ≡ class_of (get_or text at 0) → None ≡ turn p k multi → IsBroken text at
stops text at p k multi lt e f g =
    stopped text at (p, multi) lt e
    (one_more text at (p, multi) lt e
    ∙ ap (λ (x : Class). option_and_then (λ d. walk d []) (moved (p, multi) x)) (sym f)
    ∙ ap (λ (o : Option Place). option_and_then (λ d. walk d []) (option_map (λ x. (x, is_multi_after p k multi)) o)) (sym g))

pub is_broken : (text : List ℕ) (p : Place) (multi : Bool) (at : ℕ) → length text ≤ at → walk begin (take at text) ≡ Some (p, multi) → may_end p ≡ false → IsBroken text (length text)
is_broken text p multi at le e f = unfinished text (p, multi) (ap (walk begin) (sym (take_all at text le)) ∙ e) f

pub is_whole : (text : List ℕ) (p : Place) (multi : Bool) (at : ℕ) → length text ≤ at → walk begin (take at text) ≡ Some (p, multi) → may_end p ≡ true → (rings : List Ring) × IsLayer text rings
is_whole text p multi at le e f = walked text (p, multi) (ap (walk begin) (sym (take_all at text le)) ∙ e) f
