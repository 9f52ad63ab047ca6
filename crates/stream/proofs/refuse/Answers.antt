use Rattle.std.proofs.Common.{◌≡◌, vec_items, refl, arith}
use Rattle.script.specs.Texts.{bad_text}
use Rattle.stream.proofs.Appending.{extended, front}
use Rattle.stream.proofs.refuse.Goals as goal

pub returns : goal.returns
returns c =
    let whole = c.bad-end.ensures.wrote.whole (omega (arith, c.bad-end.ensures.short)) in
    extended (λ text. text ≡ bad_text 8192) (vec_items c.args.out.now) c.extend_from_slice.result c.extend_from_slice.ensures.items (bad_text 8192) refl (front (bad_text 8192) _ whole.bytes (omega (arith, whole.place)))
