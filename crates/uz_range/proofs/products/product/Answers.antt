use Rattle.uz_range.proofs.ProductsCover.{product_covers}
use Rattle.uz_range.proofs.products.product.Goals as goal

pub returns-clause-holds : goal.returns-clause-holds
returns-clause-holds c = rw c.product_by_rule.ensures (product_covers _ _ _)
