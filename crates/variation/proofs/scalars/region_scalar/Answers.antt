-- Not found by the check alone.
use Rattle.std.proofs.Common.{get_or, Some, None, refl, sym, ap, ◌∙◌}
use Rattle.variation.specs.Scalars.{factor}
use Rattle.variation.proofs.Products.{no_axis, product_more, product_end}
use Rattle.variation.proofs.Within.{one_within, product_within}
use Rattle.variation.proofs.scalars.region_scalar.Goals as goal

pub returns-in_err-product-clause-value : goal.returns-in_err-product-clause-value
returns-in_err-product-clause-value c = c.from_residual.ensures ∙ sym (sym c.loop-axis.invariant.value ∙ product_more c.loop-axis.product c.args.axes.now c.args.location.now c.loop-axis.axis-index no_axis c.loop-axis-test.true None (c.in_err-product.ensures.value ∙ ap (factor (get_or c.args.axes.now c.loop-axis.axis-index no_axis)) c.coordinate.ensures))

pub loop-axis-init : goal.loop-axis-init
loop-axis-init c = record { value = refl; within = one_within }

pub loop-axis-preserved : goal.loop-axis-preserved
loop-axis-preserved c = record {
  value = sym (product_more c.loop-axis.product c.args.axes.now c.args.location.now c.loop-axis.axis-index no_axis c.loop-axis-test.true (Some c.in_ok-product.field-0) (c.in_ok-product.ensures.value ∙ ap (factor (get_or c.args.axes.now c.loop-axis.axis-index no_axis)) c.coordinate.ensures)) ∙ c.loop-axis.invariant.value;
  within = product_within c.loop-axis.product c.in_ok-product.field-0 c.loop-axis.invariant.within c.in_ok-product.ensures.within;
}

pub returns-clause-value : goal.returns-clause-value
returns-clause-value c = sym (product_end c.loop-axis.product c.args.axes.now c.args.location.now c.loop-axis.axis-index c.loop-axis-test.false) ∙ c.loop-axis.invariant.value
