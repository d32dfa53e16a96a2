-- The lines that cross a border, read in order.
use Rattle.std.proofs.Common.{◌≡◌, ℕ, ◌+◌, ◌<◌, List, [], ◌∷◌, ◌++◌, Bool, true, false, cond, sym, ap, ◌∙◌, append-nil, append_assoc, arith, length, get_or, take}
use Rattle.std.specs.Prelude.{ℤ, Option}
use Rattle.routing.specs.declared.record.Record.{Record}
use Rattle.strips_law.specs.declared.line.Line.{Line}
use Rattle.strips_law.specs.declared.line.Open.{Open}
use Rattle.strips_law.specs.Strips.{crosses}
use Rattle.std.proofs.lemmas.List.{length-take}
use Rattle.phases.specs.Nearest.{opens_at, pixel_of}
use Rattle.phases.proofs.Keeping.{read_more}

abbrev pub open_of : Line → Option Record → Open
open_of l n = record { number = l.number; layer = l.segment.layer; near = pixel_of n }

module _ (cuts : List ℤ) (strip : ℕ) where
  opens_push : (ls : List Line) (ns : List (Option Record)) (l : Line) (n : Option Record) → length ls ≡ length ns → opens_at cuts strip (ls ++ l ∷ []) (ns ++ n ∷ []) ≡ opens_at cuts strip ls ns ++ cond (crosses cuts strip l.segment) (open_of l n ∷ []) []
  opens_push [] [] l n e = append-nil (cond (crosses cuts strip l.segment) (open_of l n ∷ []) [])
  opens_push [] (m ∷ ns) l n e = absurd (omega (arith, e))
  opens_push (k ∷ ls) [] l n e = absurd (omega (arith, e))
  opens_push (k ∷ ls) (m ∷ ns) l n e =
      let first = cond (crosses cuts strip k.segment) (open_of k m ∷ []) [] in
      ap (λ (os : List Open). first ++ os) (opens_push ls ns l n (omega (arith, e))) ∙ sym (append_assoc first (opens_at cuts strip ls ns) (cond (crosses cuts strip l.segment) (open_of l n ∷ []) []))

  module _ (lines : List Line) (nears : List (Option Record)) (i : ℕ) (l : Line) (n : Option Record) (size : length nears ≡ length lines) (inside : i < length lines) (line_is : l ≡ get_or lines i l) (near_is : n ≡ get_or nears i n) (list : List Open) (known : list ≡ opens_at cuts strip (take i lines) (take i nears)) where
    both_taken : length (take i lines) ≡ length (take i nears)
    both_taken = let a = length-take i lines in let b = length-take i nears in omega (arith, a, b, size)

    opens_more : (b : Bool) → b ≡ crosses cuts strip l.segment → opens_at cuts strip (take (i + 1) lines) (take (i + 1) nears) ≡ list ++ cond b (open_of l n ∷ []) []
    opens_more b e =
        ap (λ (ls : List Line). opens_at cuts strip ls (take (i + 1) nears)) (read_more lines i l inside line_is)
        ∙ ap (λ (ns : List (Option Record)). opens_at cuts strip (take i lines ++ l ∷ []) ns) (read_more nears i n (omega (arith, size, inside)) near_is)
        ∙ opens_push (take i lines) (take i nears) l n both_taken
        ∙ ap (λ (os : List Open). os ++ cond (crosses cuts strip l.segment) (open_of l n ∷ []) []) (sym known)
        ∙ ap (λ (c : Bool). list ++ cond c (open_of l n ∷ []) []) (sym e)

    pub crossed : true ≡ crosses cuts strip l.segment → list ++ open_of l n ∷ [] ≡ opens_at cuts strip (take (i + 1) lines) (take (i + 1) nears)
    crossed e = sym (opens_more true e)

    pub passed_by : false ≡ crosses cuts strip l.segment → list ≡ opens_at cuts strip (take (i + 1) lines) (take (i + 1) nears)
    passed_by e = sym (opens_more false e ∙ append-nil list)
