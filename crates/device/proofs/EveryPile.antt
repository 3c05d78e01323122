-- Every pile keeps to what a device means.
use Rattle.device.specs.declared.device.Device
use Rattle.device.specs.declared.source.Source
use Rattle.device.specs.CacheLaws.{cache_keeps, cache_keeps_writes}
use Rattle.device.specs.MirrorLaws.{mirror_keeps, mirror_keeps_writes}
use Rattle.device.specs.OffsetLaws.{offset_keeps, offset_keeps_writes}
use Rattle.device.specs.Piles.{Keeps, PilesKeep, cache, mirror, offset, one, other, pile_device, pile_source}

module _ {X Y : Type 0} (g : Source.Ghosts X) (h : Source.Ghosts Y) (d : Device.Ghosts X) (e : Device.Ghosts Y) where
  pub piles_keep : Keeps g d → Keeps h e → PilesKeep g h d e
  piles_keep first second one = first
  piles_keep first second other = second
  piles_keep first second (offset p) =
      let below = piles_keep first second p in
      record { reads = offset_keeps (pile_source g h p) below.reads; writes = offset_keeps_writes (pile_source g h p) (pile_device g h d e p) below.writes }
  piles_keep first second (mirror p q) =
      let below = piles_keep first second p in
      let beside = piles_keep first second q in
      record {
        reads = mirror_keeps (pile_source g h p) (pile_source g h q) below.reads beside.reads;
        writes = mirror_keeps_writes (pile_source g h p) (pile_source g h q) (pile_device g h d e p) (pile_device g h d e q) below.writes beside.writes;
      }
  piles_keep first second (cache p) =
      let below = piles_keep first second p in
      record { reads = cache_keeps (pile_source g h p) below.reads; writes = cache_keeps_writes (pile_source g h p) (pile_device g h d e p) below.reads below.writes }
