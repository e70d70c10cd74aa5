-- `mapping::objects::byte_within` meets its contract: a file byte below 2^64 is compared with both ends of the extent.
use borrow.Author.Rules.{rules}
use Rattle.std.proofs.Common.{◌≡◌, ◌∙◌, Err, sym, arith}
use Rattle.refusals.specs.declared.Refusal.TheVariants.{Hidden}
use Rattle.stripe.specs.Stripe.{file_byte}
use Rattle.mapping.specs.Back.{back_says}
use Rattle.mapping.proofs.Owned.{below_some, below_none, outside_refused, inside_given}
use Rattle.mapping.proofs.objects.byte_within.Goals as goal

pub returns-in_err-byte : goal.returns-in_err-byte
unfolding back_says
returns-in_err-byte c =
    let b = file_byte c.args.c.stripe_size c.args.c.stripe_count c.args.i c.args.p in
    let r : c.from_residual.result ≡ Err Hidden = search rules in
    let past = below_none c.args.c.stripe_size c.args.c.stripe_count c.args.i c.args.p
    (sym c.file_byte.ensures.0 ∙ c.in_err-byte.ensures.ok_part) in
    rw r (sym (outside_refused c.args.c.begin c.args.c.end b (λ h k w. omega (arith, past))))

pub returns-then-byte-c : goal.returns-then-byte-c
unfolding back_says
returns-then-byte-c c =
    let b = file_byte c.args.c.stripe_size c.args.c.stripe_count c.args.i c.args.p in
    let f = below_some c.args.c.stripe_size c.args.c.stripe_count c.args.i c.args.p c.in_ok-byte.byte
    (sym c.file_byte.ensures.0 ∙ c.in_ok-byte.ensures.ok_part) in
    sym (outside_refused c.args.c.begin c.args.c.end b (λ h k w. omega (arith, f.0)))

pub returns : goal.returns
unfolding back_says
returns c =
    let b = file_byte c.args.c.stripe_size c.args.c.stripe_count c.args.i c.args.p in
    let f = below_some c.args.c.stripe_size c.args.c.stripe_count c.args.i c.args.p c.in_ok-byte.byte
    (sym c.file_byte.ensures.0 ∙ c.in_ok-byte.ensures.ok_part) in
    rw f.0 (sym (inside_given c.args.c.begin c.args.c.end b (omega (arith, f.0)) (omega (arith, f.0))
    (omega (arith, f))))
