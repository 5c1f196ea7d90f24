use native.Mathlib.Omega.{arith}
use Rattle.disjoint.proofs.Written.{put_count, size_few, width_is, rows_size, lay, lay_place, puts_short, lay_can, puts_whole}
use Rattle.disjoint.proofs.draw.put_disjoint.Goals as goal

pub pair_count-pairs-requires : goal.pair_count-pairs-requires
pair_count-pairs-requires c = put_count c.requires

pub overflow_mul-bytes : goal.overflow_mul-bytes
overflow_mul-bytes c = record { fits = omega (arith, rows_size (size_few c.requires) (width_is _ c.div_ceil-width.ensures)) }

pub overflow_add-end : goal.overflow_add-end
overflow_add-end c = record { fits = omega (arith, lay_place (lay c.requires c.pair_count-pairs.ensures c.div_ceil-width.ensures c.put_u32-body.ensures), c.requires.place) }

pub returns-then-buf-end : goal.returns-then-buf-end
returns-then-buf-end c = puts_short (lay c.requires c.pair_count-pairs.ensures c.div_ceil-width.ensures c.put_u32-body.ensures) c.if-buf-end.true

pub put_zeros-requires : goal.put_zeros-requires
put_zeros-requires c = omega (arith, lay_place (lay c.requires c.pair_count-pairs.ensures c.div_ceil-width.ensures c.put_u32-body.ensures), c.requires.place)

pub put_pairs-requires : goal.put_pairs-requires
put_pairs-requires c = lay_can (lay c.requires c.pair_count-pairs.ensures c.div_ceil-width.ensures c.put_u32-body.ensures) c.if-buf-end.false c.put_zeros.ensures.1 c.put_zeros.ensures.0

pub returns : goal.returns
returns c = puts_whole (lay c.requires c.pair_count-pairs.ensures c.div_ceil-width.ensures c.put_u32-body.ensures) c.if-buf-end.false c.put_zeros.ensures.1 c.put_zeros.ensures.0 c.put_pairs.ensures
