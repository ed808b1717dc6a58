pub mod SlotsLaws
pub mod Same
pub mod Inclusion
pub mod Bits
pub mod Membership
pub mod Uses
pub mod Safe
pub mod WritingLemmas
