-- `gateway::growing::load`: one record more is put; at the end there is no record left, or no place.
use Rattle.std.proofs.Common.{◌≡◌, ◌-◌, ◌*◌, ◌<◌, [], ◌∙◌, refl, ap, arith, append_assoc, append-nil, inl, inr, length}
use Rattle.std.proofs.Common.{take, drop, take_all, length-take}
use Rattle.std.proofs.lemmas.Bool.{cases_lt}
use Rattle.std.proofs.lemmas.List.{take_more_set}
use Rattle.std.proofs.Math.Seq.{take_at}
use Rattle.gateway.specs.LentWords.{first_held, held_record}
use Rattle.gateway.specs.WordLaws.{record_part, held_next, held_none, held_full}
use Rattle.gateway.proofs.growing.load.Goals as goal

pub loop-i-init : goal.loop-i-init
loop-i-init c = refl

pub loop-i-preserved : goal.loop-i-preserved
loop-i-preserved c =
    let h : c.loop-i.i < length c.loop-i.record-items = omega arith in
    let next = held_next c.args.words.now c.loop-i.i (omega arith) (omega (arith, c.div_ceil.ensures)) in
    let record_there = c.first_record.ensures ∙ ap held_record
    (record_part c.args.words.now (3 * c.loop-i.i) (omega (arith, c.div_ceil.ensures))) in
    rw (take_more_set c.loop-i.record-items c.loop-i.i c.first_record.result h, record_there, append_assoc)
    (rw next at c.loop-i.invariant)

pub returns : goal.returns
returns c =
    let ws = c.args.words.now in
    let n = c.min-n.result in
    let i : c.loop-i.i ≡ n = omega (arith, length-take n c.args.records.now) in
    let items : length c.loop-i.record-items ≡ n = omega (arith, length-take n c.args.records.now) in
    let done : first_held (65 - n) (drop (3 * n) ws) ≡ [] = elim (cases_lt n 65) [
      | inl h ↦ held_none ws n (omega (arith, c.div_ceil.ensures))
      | inr h ↦ held_full ws n h
    ] in
    let all : take n c.loop-i.record-items ≡ c.loop-i.record-items = take_all n c.loop-i.record-items (omega arith) in
    (omega arith, take_at c.loop-i.record-items _ n items ∙ (rw (i, all, done, append-nil) at c.loop-i.invariant))
