-- `number_in` meets its contract: each way that the loop goes has its law.
use Rattle.std.proofs.Common.{◌∙◌, ◌+◌, sym, ap, drop, arith, rules}
use Rattle.desk_files.specs.Numbers.{number_from}
use Rattle.desk_files.proofs.Numbers.{number-none, number-starts, number_end, number_stops, number_large, digit_is, number_takes}
use Rattle.desk_files.proofs.argument.number_in.Goals as goal

pub returns-then-is_empty : goal.returns-then-is_empty
returns-then-is_empty c = number-none c.args.text.now (search rules)

pub loop-x-init : goal.loop-x-init
loop-x-init c = number-starts c.args.text.now (search rules)

pub returns-in_err-checked_mul : goal.returns-in_err-checked_mul
returns-in_err-checked_mul c =
    let large = c.in_err-checked_mul.ensures in
    c.from_residual.ensures ∙ number_large c.args.text.now c.loop-x.value c.loop-x.x-index (omega arith) (omega arith) ∙ c.loop-x.invariant

pub returns-in_err-digit_of : goal.returns-in_err-digit_of
returns-in_err-digit_of c =
    c.from_residual-in_err-digit_of.ensures
    ∙ number_stops c.args.text.now c.loop-x.value c.loop-x.x-index (omega arith) (sym c.digit_of.ensures ∙ c.in_err-digit_of.was) ∙ c.loop-x.invariant

pub returns-in_err-value : goal.returns-in_err-value
returns-in_err-value c =
    let large = c.in_err-value.ensures in
    let tens = c.in_ok-checked_mul.ensures in
    let digit = digit_is c.args.text.now c.loop-x.value c.loop-x.x-index (omega arith) c.in_ok-digit_of.field-0 (sym c.digit_of.ensures ∙ c.in_ok-digit_of.was) in
    c.from_residual-in_err-value.ensures ∙ number_large c.args.text.now c.loop-x.value c.loop-x.x-index (omega arith) (omega arith) ∙ c.loop-x.invariant

pub loop-x-preserved : goal.loop-x-preserved
loop-x-preserved c =
    let tens = c.in_ok-checked_mul.ensures in
    let sum = c.in_ok-value.ensures in
    ap (λ v. number_from v (drop (c.loop-x.x-index + 1) c.args.text.now)) (omega arith)
    ∙ number_takes c.args.text.now c.loop-x.value c.loop-x.x-index (omega arith) c.in_ok-digit_of.field-0 (sym c.digit_of.ensures ∙ c.in_ok-digit_of.was) (omega arith) ∙ c.loop-x.invariant

pub returns : goal.returns
returns c = number_end c.args.text.now c.loop-x.value c.loop-x.x-index (omega arith) ∙ c.loop-x.invariant
