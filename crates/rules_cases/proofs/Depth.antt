-- The depths of a header of small depths.
use Rattle.std.proofs.Common.{◌≡◌, ◌≤◌, arith}
use Rattle.uz_schedule.specs.declared.kinds.Kind.{Kind}
use Rattle.uz_schedule.specs.declared.kinds.Kind.TheVariants.{Main, Handler, Alone}
use Rattle.uz_schedule.specs.declared.header.Head.{Head}
use Rattle.uz_transfer.specs.Kinds.{depth_limit}

pub depth_few : (head : Head) (kind : Kind) → head.main ≡ 4 → head.handler ≡ 6 → depth_limit head kind ≤ 32
depth_few head Main m h = omega (arith, m)
depth_few head Handler m h = omega (arith, h)
depth_few head Alone m h = omega (arith, m)

pub depth_fits : (head : Head) (kind : Kind) → head.main ≤ 32 → head.handler ≤ 32 → depth_limit head kind ≤ 32
depth_fits head Main m h = m
depth_fits head Handler m h = h
depth_fits head Alone m h = m
