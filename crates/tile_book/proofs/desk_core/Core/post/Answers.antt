use Rattle.std.proofs.Common.{◌≡◌, ◌<◌, false, arith, rules}
use Rattle.std.specs.Prelude.{slice_index_or}
use Rattle.tile_book.specs.Machine.{CoreView}
use Rattle.tile_book.proofs.Trues.{trues_lt, posts}
use Rattle.tile_book.proofs.desk_core.Core.post.Goals as goal

pub push_reserved-requires : goal.push_reserved-requires
push_reserved-requires g c =
    let s = c.self.invariant.0 in
    let free : slice_index_or c.self.inside.held.items c.args.number false ≡ false = search rules in
    let lt : c.args.number < c.self.inside.limit = search rules in
    omega (arith, trues_lt c.self.inside.held.items c.args.number (omega (arith, s.places)) free, s.count, s.places, c.self.invariant.1)

pub invariant_of-self : goal.invariant_of-self
invariant_of-self g c =
    let s = c.self.invariant.0 in
    let i = c.self.inside in
    let free : slice_index_or i.held.items c.args.number false ≡ false = search rules in
    let lt : c.args.number < i.limit = search rules in
    let v : CoreView = record { limit = i.limit; word = i.word; spent = i.spent.items; held = i.held.items; accepted = i.accepted.items } in (
      rw c.push_reserved.ensures.items (posts v c.args.number s lt free),
      rw c.push_reserved.ensures.capacity c.self.invariant.1,
    )
