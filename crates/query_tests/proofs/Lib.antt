mod Gridded
