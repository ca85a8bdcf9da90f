-- Why one walk deals the marked rows.
pub mod Walking
