-- What those above cite of the crates below, which they have from here.
pub use Rattle.link_setting.specs.Readings
pub use Rattle.link_setting.specs.Answers
pub use Rattle.link_setting.specs.declared.fault.LinkFault
pub use Rattle.link_setting.specs.declared.fault.LinkFault.TheVariants
