use Rattle.std.proofs.Common.{◌+◌, ◌-◌, ◌*◌, get_or, drop, sym, ap, ◌∙◌, arith}
use Rattle.std.specs.Str.{all_ascii_digits}
use Rattle.std.proofs.lemmas.List.{drop_more, drop_all}
use Rattle.script.specs.Reading.{value_after}
use Rattle.script.proofs.Parsing.{value_grows, digits_first, digits_rest}
use Rattle.script.proofs.request.digits.Goals as goal

pub returns-then-value-ge10000 : goal.returns-then-value-ge10000
returns-then-value-ge10000 c = λ all small.
    let i = c.loop-byte.byte-index in
    let field = c.args.field.now in
    let value = c.loop-byte.value in
    let next = drop_more field i 0 c.loop-byte-test.true in
    let grown = value_grows (10 * value + (get_or field i 0 - 48)) (drop (i + 1) field) in
    omega (arith, grown, ap (value_after value) next, c.loop-byte.invariant.1, small, c.if-value-ge10000.true)

pub returns-in_err-value : goal.returns-in_err-value
returns-in_err-value c = rw c.from_residual.ensures (λ all small.
    let i = c.loop-byte.byte-index in
    let field = c.args.field.now in
    let next = drop_more field i 0 c.loop-byte-test.true in
    c.in_err-value.ensures (digits_first (get_or field i 0) (drop (i + 1) field) (sym (ap all_ascii_digits next) ∙ (c.loop-byte.invariant.2 ∙ all))))

pub loop-byte-preserved : goal.loop-byte-preserved
loop-byte-preserved c =
    let i = c.loop-byte.byte-index in
    let field = c.args.field.now in
    let value = c.loop-byte.value in
    let rest = drop (i + 1) field in
    let next = drop_more field i 0 c.loop-byte-test.true in
    let d = c.in_ok-value.ensures in (
      omega (arith, d.0, d.1, d.2, c.if-value-ge10000.false),
      ap (λ x. value_after (10 * value + x) rest) d.2 ∙ (sym (ap (value_after value) next) ∙ c.loop-byte.invariant.1),
      sym (digits_rest (get_or field i 0) rest d.0 d.1) ∙ (sym (ap all_ascii_digits next) ∙ c.loop-byte.invariant.2),
    )

pub returns : goal.returns
returns c =
    let i = c.loop-byte.byte-index in
    let field = c.args.field.now in
    let end = drop_all i field c.loop-byte-test.false in (
      sym c.loop-byte.invariant.2 ∙ ap all_ascii_digits end,
      sym (ap (value_after c.loop-byte.value) end) ∙ c.loop-byte.invariant.1,
      c.loop-byte.invariant.0,
    )
